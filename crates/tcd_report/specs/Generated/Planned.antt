-- The plan of the generated images.
use Rattle.std.specs.Prelude.{ℕ, List, ◌∷◌, codes, true, false, []}
use Rattle.tcd_base.specs.declared.core_version.Core.TheVariants.{V13}
use Rattle.tcd_plan.specs.PlanData.{PlanData}
use Rattle.tcd_base.specs.Ranges.{range}

-- the interrupts in the plan of generated images: 10, 20 .. 160
abbrev pub generated_irqs : List ℕ
generated_irqs = 10 ∷ 20 ∷ 30 ∷ 40 ∷ 50 ∷ 60 ∷ 70 ∷ 80 ∷ 90 ∷ 100 ∷ 110 ∷ 120 ∷ 130 ∷ 140 ∷ 150 ∷ 160 ∷ []

-- The plan of generated images. One range of ROM and one of RAM. A peripheral that answers 0 to 15.
-- 256 CSAs, 16 of them in reserve. Sixteen interrupts, and the trap of system calls. Interrupts are
-- enabled at the start.
abbrev pub generated_plan : PlanData
generated_plan = record {
  rom = range 0x80000000 0x20000 ∷ [];
  ram = range 0xd0010000 0x8000 ∷ [];
  devices = record { range = range 0xf0000000 0x100; lo = 0; hi = 15 } ∷ [];
  csa_at = 0xd0000000;
  areas = 256;
  reserve = 16;
  sp = 0xd0018000;
  isp = 0xd0014000;
  biv = 0x80002000;
  btv = 0x80004000;
  irqs = generated_irqs;
  sys = true;
  aln = false;
  start_ie = true;
  start_ccpn = 0;
  start_is = false;
  globals = 0 ∷ 0 ∷ 0 ∷ 0 ∷ [];
  core = V13;
}

-- the JSON text of a file with the plan of generated images
abbrev pub generated_plan_text : List ℕ
generated_plan_text = codes "{\"rom\":[{\"at\":\"0x80000000\",\"len\":\"0x20000\"}],\"ram\":[{\"at\":\"0xD0010000\",\"len\":\"0x8000\"}],\"devices\":[{\"at\":\"0xF0000000\",\"len\":\"0x100\",\"lo\":0,\"hi\":15}],\"csa\":{\"at\":\"0xD0000000\",\"areas\":256,\"reserve\":16},\"sp\":\"0xD0018000\",\"isp\":\"0xD0014000\",\"biv\":\"0x80002000\",\"btv\":\"0x80004000\",\"irqs\":[10,20,30,40,50,60,70,80,90,100,110,120,130,140,150,160],\"traps\":[\"sys\"],\"start\":{\"ie\":1,\"ccpn\":0,\"is\":0},\"globals\":{\"a0\":0,\"a1\":0,\"a8\":0,\"a9\":0}}"
