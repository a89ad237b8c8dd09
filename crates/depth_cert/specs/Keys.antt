-- Keys and their order.
use Rattle.std.specs.Prelude.{◌≤◌, ◌<◌, ◌+◌, ◌*◌, ◌^◌, ◌==◌, ◌&&◌, if◌then◌else◌, ℕ, Bool, true, false, List, codes}
use Rattle.depth_cert.specs.declared.keys.Key.{Key}
use Rattle.std.specs.declared.cmp.Ordering.{Ordering}
use Rattle.depth_cert.specs.contracts.keys.KeyPartialEq.TheImpl as block
use Rattle.depth_cert.specs.contracts.keys.KeyOrd.TheImpl as order_block

-- the kind of the frame in which a run starts
abbrev pub start_kind : ℕ
start_kind = 0

-- the kind of frames of called functions
abbrev pub call_kind : ℕ
call_kind = 1

-- the kind of frames of handlers of interrupts
abbrev pub irq_kind : ℕ
irq_kind = 2

-- the kind of frames of handlers of system calls
abbrev pub sys_kind : ℕ
sys_kind = 3

-- the kind of frames of handlers of misaligned accesses
abbrev pub aln_kind : ℕ
aln_kind = 4

-- the kind of a key of a certificate's nodes in letters: start, call, irq for interrupts, sys for
-- system calls, or aln for misaligned accesses; a blank ends it
abbrev pub key_kind_letters : ℕ → List ℕ
key_kind_letters kind =
    if kind == start_kind then codes "start "
    else if kind == call_kind then codes "call "
    else if kind == irq_kind then codes "irq "
    else if kind == sys_kind then codes "sys "
    else codes "aln "

-- the kind of a key of a certificate's nodes in letters, with a blank at its end
unfoldable pub key_kind_text : ℕ → List ℕ
key_kind_text kind = key_kind_letters kind

-- a truth value as a byte of a key's number, 1 or 0; a certificate spells each truth value so
abbrev pub cert_flag_byte : Bool → ℕ
cert_flag_byte true = 1
cert_flag_byte false = 0

-- the number of a key with these fields: kind, then entry, then prio, then is, the first one
-- highest
abbrev pub key_number : ℕ → ℕ → ℕ → ℕ → ℕ
key_number kind entry prio is = ((kind * 2 ^ 32 + entry) * 2 ^ 8 + prio) * 2 ^ 8 + is

-- the number of a key, by which keys are ordered
abbrev pub number_of_key : Key → ℕ
number_of_key k = key_number k.kind k.entry k.prio (cert_flag_byte k.is)

-- two keys are equal
abbrev pub is_same_key : Key → Key → Bool
is_same_key k j = k.kind == j.kind && k.entry == j.entry && k.prio == j.prio && cert_flag_byte k.is == cert_flag_byte j.is

-- the kind of the key is one of start, call, irq, sys and aln
pub record IsKey (k : Key) : Type 0 where
  pub kind : k.kind ≤ aln_kind
  pub entry : k.entry < 2 ^ 32
  pub prio : k.prio < 2 ^ 8

-- the equality by which maps compare keys
abbrev pub key_eq : Key → Key → Bool
key_eq = (block.ghosts).eq

-- the order by which keys are sorted
abbrev pub key_cmp : Key → Key → Ordering
key_cmp = (order_block.ghosts).cmp
