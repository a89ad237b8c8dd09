use Rattle.std.proofs.Common.{◌≡◌, ◌≤◌, ◌+◌, ◌++◌, ℕ, List, Result, Ok, Err, length, drop, subst, arith, length-drop}
use Rattle.std.specs.Prelude.{OnOk, IfOk, string_bytes}
use Rattle.std.proofs.lemmas.List.{take_rest}
use Rattle.tcd_base.specs.declared.errors.NoMemory.{NoMemory}
use Rattle.tc_disasm.specs.Listing.{listing_line_at, instruction_or_data_size}
use Rattle.tc_disasm.proofs.lines.append_line_at.Goals as goal

further : (r : Result ℕ NoMemory) (at most left : ℕ) → at + left ≡ most → IfOk r (λ n. n ≤ left) → IfOk r (λ n. at + n ≤ most)
further (Ok n) at most left e h = omega arith
further (Err x) at most left e h = h

pub returns : goal.returns
returns c =
    let e = take_rest c.args.bytes.now c.args.at in
    let within : IfOk c.append_first_line.result (λ n. n ≤ length (drop c.args.at c.args.bytes.now)) = subst (λ (bs : List ℕ). IfOk c.append_first_line.result (λ n. n ≤ length bs)) e c.append_first_line.ensures.within in
    record {
      text = subst (λ (bs : List ℕ). OnOk c.append_first_line.result (string_bytes c.append_first_line.new.text ≡ string_bytes c.args.text.now ++ listing_line_at (c.args.address + c.args.at) bs)) e c.append_first_line.ensures.text;
      size = subst (λ (bs : List ℕ). IfOk c.append_first_line.result (λ n. n ≡ instruction_or_data_size bs)) e c.append_first_line.ensures.size;
      some = c.append_first_line.ensures.some;
      within = further c.append_first_line.result c.args.at (length c.args.bytes.now) (length (drop c.args.at c.args.bytes.now)) (omega (arith, length-drop c.args.at c.args.bytes.now, c.requires.within)) within;
    }
