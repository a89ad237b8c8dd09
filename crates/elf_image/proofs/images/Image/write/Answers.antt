use Rattle.std.proofs.Common.{◌≡◌, ◌≤◌, ◌^◌, length, IfOk, Ok, sym, ap, ◌∙◌, List, ℕ, subst, rules}
use Rattle.std.proofs.lemmas.Result.{IfOk-weaker}
use Rattle.elf_image.specs.Images.{IsImage}
use Rattle.elf_image.specs.ReadElf.{image_of_file}
use Rattle.elf_image.specs.WrittenElf.{elf_file}
use Rattle.elf_image.proofs.Again.{length-file_of, image_of-file_of}
use Rattle.elf_image.proofs.images.Image.write.Goals as goal

pub returns-clause-small : goal.returns-clause-small
returns-clause-small c =
    let image : IsImage c.args.self.now = subst IsImage c.self.view_is c.self.invariant in
    let bytes : IfOk c.elf_file.result (λ v. v.items ≡ elf_file c.args.self.now) = search rules in
    IfOk-weaker c.elf_file.result (λ v. v.items ≡ elf_file c.args.self.now) (λ v. length v.items ≤ 2 ^ 30) (λ v e. subst (λ (bytes : List ℕ). length bytes ≤ 2 ^ 30) (sym e) (length-file_of c.args.self.now image)) bytes

pub returns-clause-again : goal.returns-clause-again
returns-clause-again c =
    let image : IsImage c.args.self.now = subst IsImage c.self.view_is c.self.invariant in
    let bytes : IfOk c.elf_file.result (λ v. v.items ≡ elf_file c.args.self.now) = search rules in
    IfOk-weaker c.elf_file.result (λ v. v.items ≡ elf_file c.args.self.now) (λ v. image_of_file v.items ≡ Ok c.args.self.now) (λ v e. ap image_of_file e ∙ image_of-file_of c.args.self.now image) bytes
