-- The invariant of a run of certified code: the state has a list of frames, the newest first.
use Rattle.std.proofs.Common.{◌≡◌, ◌≢◌, ℕ, suc, ◌+◌, ◌*◌, ◌/◌, ◌^◌, ◌<◌, ◌≤◌, ◌⊎◌, Bool, true, false, List, [], ◌∷◌, ◌++◌, length, get_or, Some, refl, sym, ap, ◌∙◌, subst, arith, length-append}
use Rattle.std.proofs.lemmas.List.{append-nil}
use Rattle.csa_chain.specs.MemoryBytes.{Memory}
use Rattle.csa_chain.specs.Chain.{link_in, is_area_mapped, area_word}
use Rattle.csa_chain.specs.ContextWords.{ul_of, pie_of, pcpn_of}
use Rattle.csa_chain.proofs.ChainLaws.{Links, SameAreas, SameArea, is_area_same, area_word_same}
use Rattle.csa_chain.proofs.ContextLaws.{upper_regs, lower_regs, global_regs}
use Rattle.elf_image.specs.Images.{ImageData}
use Rattle.tcd_base.specs.declared.core_version.Core.{Core}
use Rattle.tcd_plan.specs.PlanData.{PlanData, global_of}
use Rattle.tc_machine.specs.declared.events.End.TheVariants.{Running}
use Rattle.tc_machine.specs.declared.state.Machine.{Machine}
use Rattle.tc_machine.specs.Machine.{reg, a11, is_interrupt_stack_used}
use Rattle.tc_mem.specs.PlanMemory.{HoldsRom, IsPlanMemory}
use Rattle.tc_machine.proofs.Areas.{Areas}
use Rattle.value_domain.specs.State.{FlagsImply}
use Rattle.vd_transfer.specs.Registers.{is_lower_register}
use Rattle.vd_transfer.specs.Holding.{Holds}
use Rattle.depth_cert.specs.declared.points.Exit.{Exit}
use Rattle.depth_cert.specs.declared.points.Point.{Point}
use Rattle.depth_cert.specs.Points.{find_point}
use Rattle.depth_cert.specs.Nodes.{NodeData}
use Rattle.depth_cert.specs.Certs.{CertData}
use Rattle.cfg_recover.specs.Frames.{RunFrame}
use Rattle.cfg_recover.specs.MovesAreOwed.{IsInState}
use Rattle.cfg_recover.proofs.EntryLaws.{HoldsExit}
use Rattle.cfg_recover.proofs.PointLaws.{Stands}

-- What stays of a frame while it runs: its node, the area that was saved at its entry and the word
-- that A11 got there (0 for the start), the registers at its entry, and the areas of its lower
-- contexts with their flags, the newest first.
pub record Frame : Type 0 where
  pub node : NodeData
  pub area : ℕ
  pub back : ℕ
  pub word0 : ℕ → ℕ
  pub locals : List ℕ
  pub flags : List Bool

-- the flags in the order of a state
abbrev pub oldest_first : List Bool → List Bool
oldest_first [] = []
oldest_first (f ∷ fs) = oldest_first fs ++ f ∷ []

-- ---- registers
-- the lower registers are the same; all others except A11 are the same
abbrev pub LowerSame : (ℕ → ℕ) → (ℕ → ℕ) → Type 0
LowerSame word0 word = (r : ℕ) → is_lower_register r ≡ true → word r ≡ word0 r

abbrev pub UpperSame : (ℕ → ℕ) → (ℕ → ℕ) → Type 0
UpperSame word0 word = (r : ℕ) → r < 32 → is_lower_register r ≡ false → r ≢ 27 → word r ≡ word0 r

-- How a frame may end: by RET, with the exit's values; by RFE of a system call, with those and the
-- status of PCXI; and by RFE of another handler, with the lower registers of its entry and the
-- status of PCXI.
pub data Leaves (pie : Bool) (pcpn : ℕ) (node : NodeData) (word0 word : ℕ → ℕ) (ie : Bool) (ccpn : ℕ) : Type 0 where
  by_return : (x : Exit) → node.exit ≡ Some x → (node.key).kind ≡ 1 → HoldsExit word ie ccpn x → Leaves pie pcpn node word0 word ie ccpn
  from_system :
      (x : Exit) (ie2 : Bool) (ccpn2 : ℕ) → node.exit ≡ Some x → (node.key).kind ≡ 3 → HoldsExit word ie2 ccpn2 x → ie ≡ pie → ccpn ≡ pcpn
      → Leaves pie pcpn node word0 word ie ccpn
  from_handler : ((node.key).kind ≡ 2) ⊎ ((node.key).kind ≡ 4) → LowerSame word0 word → ie ≡ pie → ccpn ≡ pcpn → Leaves pie pcpn node word0 word ie ccpn

-- a suspended frame goes on at A11, bit 0 cleared, with these registers and this status
pub record Resumed (plan : PlanData) (suspended : Frame) (back : ℕ) (word : ℕ → ℕ) (ie : Bool) (ccpn : ℕ) : Type 0 where
  pub point : Point
  pub found : find_point (back / 2 * 2) (suspended.node).points ≡ Some point
  pub even : back / 2 * 2 ≡ back
  pub flags : FlagsImply (point.state).locals.items (oldest_first suspended.flags)
  pub inside : Holds plan word ie ccpn point.state
  pub lower_kept : (point.state).lower ≡ true → LowerSame suspended.word0 word

-- ---- areas
-- a lower context of a frame
pub record Local (core : Core) (mem : Memory) (pcxi back l : ℕ) (flag : Bool) (word0 : ℕ → ℕ) : Type 0 where
  pub some : l ≢ 0
  pub named : link_in pcxi ≡ l
  pub ul : ul_of core pcxi ≡ false
  pub area : is_area_mapped mem l ≡ true
  pub a11_is : area_word mem l 1 ≡ back
  pub kept : flag ≡ true → (j : ℕ) → j < 14 → area_word mem l (suc (suc j)) ≡ word0 (get_or lower_regs j 0)

abbrev pub Locals : Core → Memory → ℕ → ℕ → (ℕ → ℕ) → List Bool → List ℕ → Type 0
Locals core mem pcxi back word0 [] [] = Unit {0}
Locals core mem pcxi back word0 (f ∷ fs) (l ∷ ls) = Local core mem pcxi back l f word0 × Locals core mem (area_word mem l 0) back word0 fs ls
Locals core mem pcxi back word0 [] (l ∷ ls) = ⊥
Locals core mem pcxi back word0 (f ∷ fs) [] = ⊥

-- the word PCXI below the lower contexts
abbrev pub under : Memory → ℕ → List ℕ → ℕ
under mem pcxi [] = pcxi
under mem pcxi (l ∷ ls) = under mem (area_word mem l 0) ls

-- The entry of a frame from a suspended one. PCXI names the area of the entry, an upper context
-- with the suspended frame's registers; the need of the suspended frame has room for the entered
-- one; and if that ends, the suspended one goes on.
pub record Entry (plan : PlanData) (cert : CertData) (core : Core) (mem : Memory) (pcxi back : ℕ) (node : NodeData) (entry back0 : ℕ) (word0 : ℕ → ℕ) (suspended : Frame) : Type 0 where
  pub some : entry ≢ 0
  pub named : link_in pcxi ≡ entry
  pub ul : ul_of core pcxi ≡ true
  pub area : is_area_mapped mem entry ≡ true
  pub stands : Stands cert suspended.node
  pub same_back : back ≡ back0
  pub need : 1 + length suspended.locals + node.need ≤ (suspended.node).need
  pub is : is_interrupt_stack_used (area_word mem entry 1) ≡ ((suspended.node).key).is
  pub upper : (j : ℕ) → j < 14 → j ≢ 1 → area_word mem entry (suc (suc j)) ≡ word0 (get_or upper_regs j 0)
  pub globals : (j : ℕ) → j < 4 → word0 (get_or global_regs j 0) ≡ global_of plan (get_or global_regs j 0)
  pub goes_on :
      (word : ℕ → ℕ) (ie : Bool) (ccpn : ℕ) → UpperSame word0 word → word 27 < 2 ^ 32 → Leaves (pie_of core pcxi) (pcpn_of core pcxi) node word0 word ie ccpn
      → Resumed plan suspended back word ie ccpn

-- the start's frame
pub record Oldest (most pcxi : ℕ) (node : NodeData) : Type 0 where
  pub ends : link_in pcxi ≡ 0
  pub kind : (node.key).kind ≡ 0
  pub need : node.need ≤ most

-- The frames of a state with these words in PCXI and A11. Those words of a suspended frame are
-- words 0 and 3 of the area of the frame that was entered from it.
abbrev pub Frames : PlanData → CertData → ℕ → Core → Memory → ℕ → ℕ → Frame → List Frame → Type 0
Frames plan cert most core mem pcxi back frame [] =
    Locals core mem pcxi back frame.word0 frame.flags frame.locals × Oldest most (under mem pcxi frame.locals) frame.node
Frames plan cert most core mem pcxi back frame (suspended ∷ below) =
    Locals core mem pcxi back frame.word0 frame.flags frame.locals
    × Entry plan cert core mem (under mem pcxi frame.locals) back frame.node frame.area frame.back frame.word0 suspended
    × Frames plan cert most core mem (area_word mem frame.area 0) (area_word mem frame.area 3) suspended below

-- the areas in use, the newest first
abbrev pub used_by : Frame → List Frame → List ℕ
used_by frame [] = frame.locals
used_by frame (suspended ∷ below) = frame.locals ++ frame.area ∷ used_by suspended below

-- the frames as a run has them, the running one at an address
abbrev pub standing : ℕ → Frame → List Frame → List RunFrame
standing pc frame [] = record { key = (frame.node).key; at = pc } ∷ []
standing pc frame (suspended ∷ below) = record { key = (frame.node).key; at = pc } ∷ standing frame.back suspended below

-- the invariant, with the frames of the state
pub record Invariant (image : ImageData) (plan : PlanData) (cert : CertData) (most : ℕ) (m : Machine) (frame : Frame) (below : List Frame) : Type 0 where
  pub stands : Stands cert frame.node
  pub point : Point
  pub found : find_point m.pc (frame.node).points ≡ Some point
  pub inside : IsInState plan m point.state
  pub flags : FlagsImply (point.state).locals.items (oldest_first frame.flags)
  pub is : is_interrupt_stack_used m.psw ≡ ((frame.node).key).is
  pub lower_kept : (point.state).lower ≡ true → LowerSame frame.word0 (reg m)
  pub frames : Frames plan cert most m.core m.mem m.pcxi (a11 m) frame below
  pub free : List ℕ
  pub areas : Areas plan m.mem m.fcx m.lcx (used_by frame below) free
  pub rom : HoldsRom image plan m.mem
  pub memory : IsPlanMemory plan m.mem
  pub biv : m.biv ≡ plan.biv
  pub btv : m.btv ≡ plan.btv
  pub isp : m.isp ≡ plan.isp
  pub running : m.end ≡ Running

-- ---- the frames stay if the areas in use stay
pub SameAreas-left : (m n : Memory) (xs ys : List ℕ) → SameAreas m n (xs ++ ys) → SameAreas m n xs
SameAreas-left m n [] ys h = tt
SameAreas-left m n (x ∷ xs) ys h = (h.0, SameAreas-left m n xs ys h.1)

pub SameAreas-right : (m n : Memory) (xs ys : List ℕ) → SameAreas m n (xs ++ ys) → SameAreas m n ys
SameAreas-right m n [] ys h = h
SameAreas-right m n (x ∷ xs) ys h = SameAreas-right m n xs ys h.1

pub Locals-same : (core : Core) (m n : Memory) (pcxi back : ℕ) (word0 : ℕ → ℕ) (fs : List Bool) (ls : List ℕ) → SameAreas m n ls → Locals core m pcxi back word0 fs ls → Locals core n pcxi back word0 fs ls
Locals-same core m n pcxi back word0 [] [] same h = tt
Locals-same core m n pcxi back word0 (f ∷ fs) (l ∷ ls) same h =
    let k = h.0 in (
      record {
        some = k.some;
        named = k.named;
        ul = k.ul;
        area = is_area_same same.0 ∙ k.area;
        a11_is = area_word_same same.0 1 (omega arith) ∙ k.a11_is;
        kept = λ e j lt. area_word_same same.0 (suc (suc j)) (omega arith) ∙ k.kept e j lt;
      },
      rw (area_word_same same.0 0 (omega arith)) (Locals-same core m n (area_word m l 0) back word0 fs ls same.1 h.1),
    )
Locals-same core m n pcxi back word0 [] (l ∷ ls) same h = absurd h
Locals-same core m n pcxi back word0 (f ∷ fs) [] same h = absurd h

pub under-same : (m n : Memory) (pcxi : ℕ) (ls : List ℕ) → SameAreas m n ls → under n pcxi ls ≡ under m pcxi ls
under-same m n pcxi [] same = refl
under-same m n pcxi (l ∷ ls) same = ap (λ w. under n w ls) (area_word_same same.0 0 (omega arith)) ∙ under-same m n (area_word m l 0) ls same.1

module _ (plan : PlanData) (cert : CertData) (most : ℕ) (core : Core) where
  Entry-same : (m n : Memory) (pcxi back : ℕ) (node : NodeData) (entry back0 : ℕ) (word0 : ℕ → ℕ) (suspended : Frame) → SameArea m n entry → Entry plan cert core m pcxi back node entry back0 word0 suspended → Entry plan cert core n pcxi back node entry back0 word0 suspended
  Entry-same m n pcxi back node entry back0 word0 suspended same h =
      record {
        some = h.some;
        named = h.named;
        ul = h.ul;
        area = is_area_same same ∙ h.area;
        stands = h.stands;
        same_back = h.same_back;
        need = h.need;
        is = ap is_interrupt_stack_used (area_word_same same 1 (omega arith)) ∙ h.is;
        upper = λ j lt ne. area_word_same same (suc (suc j)) (omega arith) ∙ h.upper j lt ne;
        globals = h.globals;
        goes_on = h.goes_on;
      }

  pub Frames-same : (m n : Memory) (pcxi back : ℕ) (frame : Frame) (below : List Frame) → SameAreas m n (used_by frame below) → Frames plan cert most core m pcxi back frame below → Frames plan cert most core n pcxi back frame below
  Frames-same m n pcxi back frame [] same h = (
    Locals-same core m n pcxi back frame.word0 frame.flags frame.locals same h.0,
    subst (λ w. Oldest most w frame.node) (sym (under-same m n pcxi frame.locals same)) h.1,
  )
  Frames-same m n pcxi back frame (suspended ∷ below) same h =
      let own = SameAreas-left m n frame.locals (frame.area ∷ used_by suspended below) same in
      let rest = SameAreas-right m n frame.locals (frame.area ∷ used_by suspended below) same in (
        Locals-same core m n pcxi back frame.word0 frame.flags frame.locals own h.0,
        subst (λ w. Entry plan cert core n w back frame.node frame.area frame.back frame.word0 suspended) (sym (under-same m n pcxi frame.locals own))
            (Entry-same m n (under m pcxi frame.locals) back frame.node frame.area frame.back frame.word0 suspended rest.0 h.1),
        rw (area_word_same rest.0 0 (omega arith), area_word_same rest.0 3 (omega arith)) (Frames-same m n (area_word m frame.area 0) (area_word m frame.area 3) suspended below rest.1 h.2),
      )

  -- ---- the frames and the chain of areas
  Links-Locals : (mem : Memory) (pcxi back : ℕ) (word0 : ℕ → ℕ) (fs : List Bool) (ls rest : List ℕ) → Locals core mem pcxi back word0 fs ls → Links mem (under mem pcxi ls) rest → Links mem pcxi (ls ++ rest)
  Links-Locals mem pcxi back word0 [] [] rest h g = g
  Links-Locals mem pcxi back word0 (f ∷ fs) (l ∷ ls) rest h g =
      ((h.0).some, (h.0).named, (h.0).area, Links-Locals mem (area_word mem l 0) back word0 fs ls rest h.1 g)
  Links-Locals mem pcxi back word0 [] (l ∷ ls) rest h g = absurd h
  Links-Locals mem pcxi back word0 (f ∷ fs) [] rest h g = absurd h

  -- the areas in use are a chain
  pub Links-Frames : (mem : Memory) (pcxi back : ℕ) (frame : Frame) (below : List Frame) → Frames plan cert most core mem pcxi back frame below → Links mem pcxi (used_by frame below)
  Links-Frames mem pcxi back frame [] h =
      subst (Links mem pcxi) (append-nil frame.locals) (Links-Locals mem pcxi back frame.word0 frame.flags frame.locals [] h.0 (h.1).ends)
  Links-Frames mem pcxi back frame (suspended ∷ below) h =
      Links-Locals mem pcxi back frame.word0 frame.flags frame.locals (frame.area ∷ used_by suspended below) h.0
      ((h.1).some, (h.1).named, (h.1).area, Links-Frames mem (area_word mem frame.area 0) (area_word mem frame.area 3) suspended below h.2)

  -- the areas in use, with what the running frame may still need
  pub need-Frames : (mem : Memory) (pcxi back : ℕ) (frame : Frame) (below : List Frame) → Frames plan cert most core mem pcxi back frame below → length (used_by frame below) + (frame.node).need ≤ most + length frame.locals
  need-Frames mem pcxi back frame [] h = let n = (h.1).need in omega arith
  need-Frames mem pcxi back frame (suspended ∷ below) h =
      let rest = need-Frames mem (area_word mem frame.area 0) (area_word mem frame.area 3) suspended below h.2 in
      omega (arith, (h.1).need, length-append frame.locals (frame.area ∷ used_by suspended below))

  pub own_locals : (mem : Memory) (pcxi back : ℕ) (frame : Frame) (below : List Frame) → Frames plan cert most core mem pcxi back frame below → Locals core mem pcxi back frame.word0 frame.flags frame.locals
  own_locals mem pcxi back frame [] h = h.0
  own_locals mem pcxi back frame (s ∷ below) h = h.0

  -- ---- a frame whose lower contexts change
  -- what is below them stays
  pub Frames-moved : (mem : Memory) (pcxi pcxi' back : ℕ) (frame : Frame) (below : List Frame) (locals : List ℕ) (flags : List Bool) →
      under mem pcxi' locals ≡ under mem pcxi frame.locals → Locals core mem pcxi' back frame.word0 flags locals →
      Frames plan cert most core mem pcxi back frame below → Frames plan cert most core mem pcxi' back (record frame { locals = locals; flags = flags }) below
  Frames-moved mem pcxi pcxi' back frame [] locals flags e h g = (h, subst (λ w. Oldest most w frame.node) (sym e) g.1)
  Frames-moved mem pcxi pcxi' back frame (suspended ∷ below) locals flags e h g =
      (h, subst (λ w. Entry plan cert core mem w back frame.node frame.area frame.back frame.word0 suspended) (sym e) g.1, g.2)

-- ---- numbers of lower contexts
pub length-Locals : (core : Core) (mem : Memory) (pcxi back : ℕ) (word0 : ℕ → ℕ) (fs : List Bool) (ls : List ℕ) → Locals core mem pcxi back word0 fs ls → length fs ≡ length ls
length-Locals core mem pcxi back word0 [] [] h = refl
length-Locals core mem pcxi back word0 (f ∷ fs) (l ∷ ls) h = ap suc (length-Locals core mem (area_word mem l 0) back word0 fs ls h.1)
length-Locals core mem pcxi back word0 [] (l ∷ ls) h = absurd h
length-Locals core mem pcxi back word0 (f ∷ fs) [] h = absurd h

pub length-oldest_first : (fs : List Bool) → length (oldest_first fs) ≡ length fs
length-oldest_first [] = refl
length-oldest_first (f ∷ fs) = let rest = length-oldest_first fs in let more = length-append (oldest_first fs) (f ∷ []) in omega arith

pub ImpliedBy-trans : (fs gs hs : List Bool) → FlagsImply fs gs → FlagsImply gs hs → FlagsImply fs hs
ImpliedBy-trans [] [] [] a b = tt
ImpliedBy-trans (f ∷ fs) (g ∷ gs) (h ∷ hs) a b = (λ e. b.0 (a.0 e), ImpliedBy-trans fs gs hs a.1 b.1)
ImpliedBy-trans [] (g ∷ gs) hs a b = absurd a
ImpliedBy-trans (f ∷ fs) [] hs a b = absurd a
ImpliedBy-trans [] [] (h ∷ hs) a b = absurd b
ImpliedBy-trans (f ∷ fs) (g ∷ gs) [] a b = absurd b

pub no_locals : {A : Type 0} (ls : List A) → length ls ≡ 0 → ls ≡ []
no_locals [] h = refl
no_locals (l ∷ ls) h = absurd (omega arith)
