-- The commands: what arguments ask for, and what each command reads and reports.
use Rattle.std.specs.Prelude.{◌≤◌, ◌&&◌, not, nat_le, ℕ, Bool, List, ◌∷◌, length, map, string_bytes, codes, Option, Some, None, if◌then◌else◌, []}
use Rattle.std.specs.Bool.{then_some}
use Rattle.std.specs.Option.{option_or, option_map, option_and_then}
use Rattle.std.specs.Str.{bytes_eq}
use Rattle.tcd_text.specs.HexNumbers.{hex_number_of}
use Rattle.tcd_reading.specs.Inputs.{Reading}
use Rattle.tcd_driver.specs.Check.{CheckArgs, check_reading}
use Rattle.tcd_driver.specs.Cert.{CertArgs, cert_reading}
use Rattle.tcd_driver.specs.Cfg.{CfgArgs, cfg_reading}
use Rattle.tcd_driver.specs.Reporting.{ReportArgs, report_reading}
use Rattle.tcd_driver.specs.Run.{RunArgs, run_reading}
use Rattle.tcd_driver.specs.Dis.{dis_reading}
use Rattle.tcd_driver.specs.Asm.{AsmArgs, asm_reading}
use Rattle.tcd_driver.specs.Link.{LinkArgs, link_reading}
use Rattle.tcd_driver.specs.Ship.{ShipArgs, ship_args, ship_reading}
use Rattle.tcd_driver.specs.Boot.{BootArgs, BootSequenceFits, BootgenArgs, boot_reading, bootgen_reading}
use Rattle.tcd_driver.specs.Cells.{CellsArgs, cells_reading}
use Rattle.tcd_driver.specs.Cellcert.{CellcertArgs, cellcert_reading}
use Rattle.tcd_driver.specs.Tasks.{TasksArgs, tasks_reading}
use Rattle.tcd_driver.specs.Gen.{gen_reading, gen_function_count}
use Rattle.tcd_driver.specs.Taskcert.{TaskcertArgs, taskcert_reading}
use Rattle.tcd_driver.specs.declared.command.Command.{Command as Words}
use Rattle.tcd_driver.specs.declared.command.Command.TheVariants as words
use Rattle.tcd_driver.specs.DistinctNames.{are_distinct_names}

-- a command with the names of its files; for `dis` the executable, for `gen` the number of
-- functions
pub data Command : Type 0 where
  check : CheckArgs → Command
  certify : CertArgs → Command
  cfg : CfgArgs → Command
  report : ReportArgs → Command
  run : RunArgs → Command
  dis : List ℕ → Command
  asm : AsmArgs → Command
  link : LinkArgs → Command
  ship : ShipArgs → Command
  boot : BootArgs → Command
  bootgen : BootgenArgs → Command
  cells : CellsArgs → Command
  cellcert : CellcertArgs → Command
  tasks : TasksArgs → Command
  generate : ℕ → Command
  taskcert : TaskcertArgs → Command

-- the arguments are those of the command `link`, which has 1 to 65,532 objects
abbrev pub is_link : List ℕ → List (List ℕ) → Bool
is_link verb objects = bytes_eq verb (codes "link") && nat_le 1 (length objects) && nat_le (length objects) 65532

-- the command `link`: a layout, the image, and objects
abbrev pub link_command_of : List (List ℕ) → Option Command
link_command_of (verb ∷ layout ∷ image ∷ objects) = if is_link verb objects then Some (link (record { layout = layout; image = image; objects = objects })) else None
link_command_of words = None

-- the arguments are those of the command `ship`, which writes two files with different names, and
-- has 1 to 65,530 sources
abbrev pub is_ship : List ℕ → List ℕ → List ℕ → List (List ℕ) → Bool
is_ship verb elf cert sources = bytes_eq verb (codes "ship") && not (bytes_eq elf cert) && nat_le 1 (length sources) && nat_le (length sources) 65530

-- the command `ship`: a plan, a layout, the image, its certificate, and sources
abbrev pub ship_command_of : List (List ℕ) → Option Command
ship_command_of (verb ∷ plan ∷ layout ∷ elf ∷ cert ∷ sources) =
    if is_ship verb elf cert sources then Some (ship (record { plan = plan; layout = layout; elf = elf; cert = cert; sources = sources })) else None
ship_command_of words = None

-- the arguments are those of the command `tasks`, which has 1 to 65,531 certificates
abbrev pub is_tasks : List ℕ → List (List ℕ) → Bool
is_tasks verb certs = bytes_eq verb (codes "tasks") && nat_le 1 (length certs) && nat_le (length certs) 65531

-- the arguments are those of the command `taskcert`, which writes 1 to 65,531 certificates under
-- different names
abbrev pub is_taskcert : List ℕ → List (List ℕ) → Bool
is_taskcert verb certs = bytes_eq verb (codes "taskcert") && nat_le 1 (length certs) && nat_le (length certs) 65531 && are_distinct_names certs

-- the commands `tasks` and `taskcert`: an image, a plan, its tasks, and certificates
abbrev pub tasks_command_of : List (List ℕ) → Option Command
tasks_command_of (verb ∷ elf ∷ plan ∷ list ∷ certs) =
    if is_tasks verb certs then Some (tasks (record { elf = elf; plan = plan; tasks = list; certs = certs }))
    else if is_taskcert verb certs then Some (taskcert (record { elf = elf; plan = plan; tasks = list; certs = certs }))
    else None
tasks_command_of words = None

-- the command `bootgen`: a plan, the entry and the address of a boot sequence that doesn't pass
-- 2^32, and a source; None for bad numbers
abbrev pub bootgen_command_of : List ℕ → List ℕ → List ℕ → List ℕ → Option Command
bootgen_command_of plan entry at source =
    option_and_then (λ e. option_and_then (λ x. then_some (nat_le x 0xffffff20) (bootgen (record { plan = plan; entry = e; at = x; source = source }))) (hex_number_of at)) (hex_number_of entry)

-- the command `boot`: an image, a plan, a certificate, and the address of a boot sequence
abbrev pub boot_command_of : List ℕ → List ℕ → List ℕ → List ℕ → Option Command
boot_command_of elf plan cert at = option_map (λ x. boot (record { elf = elf; plan = plan; cert = cert; at = x })) (hex_number_of at)

-- the command with one argument after its verb, `dis` or `gen`; None for others, or a bad number
abbrev pub one_arg_command : List ℕ → List ℕ → Option Command
one_arg_command verb word =
    if bytes_eq verb (codes "dis") then Some (dis word)
    else if bytes_eq verb (codes "gen") then option_map generate (gen_function_count word)
    else None

-- the command that has two arguments after its verb, `asm` or `cfg`; None for other verbs
abbrev pub two_arg_command : List ℕ → List ℕ → List ℕ → Option Command
two_arg_command verb first second =
    if bytes_eq verb (codes "asm") then Some (asm (record { source = first; object = second }))
    else if bytes_eq verb (codes "cfg") then Some (cfg (record { elf = first; plan = second }))
    else None

-- the command with three arguments, `check`, `cert`, `report` or `run`; None for other verbs
abbrev pub three_arg_command : List ℕ → List ℕ → List ℕ → List ℕ → Option Command
three_arg_command verb elf plan third =
    if bytes_eq verb (codes "check") then Some (check (record { elf = elf; plan = plan; cert = third }))
    else if bytes_eq verb (codes "cert") then Some (certify (record { elf = elf; plan = plan; cert = third }))
    else if bytes_eq verb (codes "report") then Some (report (record { elf = elf; plan = plan; cert = third }))
    else if bytes_eq verb (codes "run") then Some (run (record { elf = elf; plan = plan; script = third }))
    else None

-- the command with four arguments after its verb; None for other verbs, or a bad address
abbrev pub four_arg_command : List ℕ → List ℕ → List ℕ → List ℕ → List ℕ → Option Command
four_arg_command verb first second third fourth =
    if bytes_eq verb (codes "cells") then Some (cells (record { elf = first; plan = second; cells = third; cert = fourth }))
    else if bytes_eq verb (codes "cellcert") then Some (cellcert (record { elf = first; plan = second; cells = third; cert = fourth }))
    else if bytes_eq verb (codes "boot") then boot_command_of first second third fourth
    else if bytes_eq verb (codes "bootgen") then bootgen_command_of first second third fourth
    else None

-- the command that has one to four arguments after its verb; None for other arguments
abbrev pub fixed_arity_command_of : List (List ℕ) → Option Command
fixed_arity_command_of (verb ∷ first ∷ []) = one_arg_command verb first
fixed_arity_command_of (verb ∷ first ∷ second ∷ []) = two_arg_command verb first second
fixed_arity_command_of (verb ∷ first ∷ second ∷ third ∷ []) = three_arg_command verb first second third
fixed_arity_command_of (verb ∷ first ∷ second ∷ third ∷ fourth ∷ []) = four_arg_command verb first second third fourth
fixed_arity_command_of words = None

-- the command that these arguments of the program ask for; None if they are no command
abbrev pub command : List (List ℕ) → Option Command
command words = option_or (link_command_of words) (option_or (ship_command_of words) (option_or (tasks_command_of words) (fixed_arity_command_of words)))

-- for each of the commands, what it reads and reports: its files, in the order of its arguments,
-- and its report
abbrev pub reading_of : Command → Reading
reading_of (check names) = check_reading names
reading_of (certify names) = cert_reading names
reading_of (cfg names) = cfg_reading names
reading_of (report names) = report_reading names
reading_of (run names) = run_reading names
reading_of (dis elf) = dis_reading elf
reading_of (asm names) = asm_reading names
reading_of (link names) = link_reading names
reading_of (ship names) = ship_reading names
reading_of (boot names) = boot_reading names
reading_of (bootgen names) = bootgen_reading names
reading_of (cells names) = cells_reading names
reading_of (cellcert names) = cellcert_reading names
reading_of (tasks names) = tasks_reading names
reading_of (generate functions) = gen_reading functions
reading_of (taskcert names) = taskcert_reading names

-- ---- the command as a value of the program
-- the plain data of a command in the code: its file names as bytes, and its numbers
abbrev pub plain_command : Words → Command
plain_command (words.Check elf plan cert) = check (record { elf = elf.now; plan = plan.now; cert = cert.now })
plain_command (words.Cert elf plan cert) = certify (record { elf = elf.now; plan = plan.now; cert = cert.now })
plain_command (words.Cfg elf plan) = cfg (record { elf = elf.now; plan = plan.now })
plain_command (words.Report elf plan cert) = report (record { elf = elf.now; plan = plan.now; cert = cert.now })
plain_command (words.Run elf plan script) = run (record { elf = elf.now; plan = plan.now; script = script.now })
plain_command (words.Dis elf) = dis elf.now
plain_command (words.Asm source object) = asm (record { source = source.now; object = object.now })
plain_command (words.Link layout image objects) = link (record { layout = layout.now; image = image.now; objects = map string_bytes objects.now })
plain_command (words.Ship names) = ship (ship_args names)
plain_command (words.Boot elf plan cert at) = boot (record { elf = elf.now; plan = plan.now; cert = cert.now; at = at })
plain_command (words.Bootgen plan entry at source) = bootgen (record { plan = plan.now; entry = entry; at = at; source = source.now })
plain_command (words.Cells elf plan cells' cert) = cells (record { elf = elf.now; plan = plan.now; cells = cells'.now; cert = cert.now })
plain_command (words.Cellcert elf plan cells' cert) = cellcert (record { elf = elf.now; plan = plan.now; cells = cells'.now; cert = cert.now })
plain_command (words.Taskcert elf plan list certs) = taskcert (record { elf = elf.now; plan = plan.now; tasks = list.now; certs = map string_bytes certs.now })
plain_command (words.Tasks elf plan list certs) = tasks (record { elf = elf.now; plan = plan.now; tasks = list.now; certs = map string_bytes certs.now })
plain_command (words.Gen functions) = generate functions

-- a command that arguments ask for is within limits: at most 65,535 objects or sources, and to
-- generate a boot sequence that doesn't pass 2^32, or 1 to 500 functions
abbrev pub CommandKeepsLimits : Words → Type 0
CommandKeepsLimits (words.Check elf plan cert) = Unit {0}
CommandKeepsLimits (words.Cert elf plan cert) = Unit {0}
CommandKeepsLimits (words.Cfg elf plan) = Unit {0}
CommandKeepsLimits (words.Report elf plan cert) = Unit {0}
CommandKeepsLimits (words.Run elf plan script) = Unit {0}
CommandKeepsLimits (words.Dis elf) = Unit {0}
CommandKeepsLimits (words.Asm source object) = Unit {0}
CommandKeepsLimits (words.Link layout image objects) = length objects.now ≤ 65535
CommandKeepsLimits (words.Ship names) = length names.sources.now ≤ 65535
CommandKeepsLimits (words.Boot elf plan cert at) = Unit {0}
CommandKeepsLimits (words.Bootgen plan entry at source) = BootSequenceFits at
CommandKeepsLimits (words.Cells elf plan cells' cert) = Unit {0}
CommandKeepsLimits (words.Cellcert elf plan cells' cert) = Unit {0}
CommandKeepsLimits (words.Tasks elf plan list certs) = Unit {0}
CommandKeepsLimits (words.Gen functions) = (1 ≤ functions) × (functions ≤ 500)
CommandKeepsLimits (words.Taskcert elf plan list certs) = Unit {0}
