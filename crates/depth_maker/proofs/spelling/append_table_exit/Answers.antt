use Rattle.std.proofs.Common.{ap, sym}
use Rattle.std.specs.Option.{option_map}
use Rattle.depth_maker.specs.TableView.{view_of_table}
use Rattle.small_states.specs.CompactForms.{whole_exit}
use Rattle.depth_maker.proofs.OutLemmas.{exit_there, exit_well, no_exit_there, writes_exit, writes_no_exit}
use Rattle.depth_maker.proofs.spelling.append_table_exit.Goals as goal

pub returns-in_default : goal.returns-in_default
unfolding view_of_table
returns-in_default c = writes_no_exit c.args.source.now c.args.key c.args.out.now.items c.write_no_exit.new.out.items (ap (option_map (λ m. m.value)) (sym c.in_default.ensures.value)) c.in_ok-write_no_exit.ensures

pub unreachable-requires : goal.unreachable-requires
unreachable-requires c = no_exit_there c.args.source.now c.requires.source c.args.key c.in-Some.known.now.value (ap (option_map (λ m. m.value)) (sym c.in-Some.ensures.value)) c.in_default-exit.ensures.none

pub append_bytes-requires : goal.append_bytes-requires
append_bytes-requires c =
    let x = whole_exit c.in-Some-exit.exit.now in
    exit_well c.args.source.now c.requires.source c.args.key x (exit_there c.args.source.now c.args.key c.in-Some.known.now.value x (ap (option_map (λ m. m.value)) (sym c.in-Some.ensures.value)) c.in-Some-exit.ensures.some)

pub returns : goal.returns
returns c =
    let x = whole_exit c.in-Some-exit.exit.now in
    writes_exit c.args.source.now c.args.key x c.args.out.now.items c.append_bytes.new.out.items
    (exit_there c.args.source.now c.args.key c.in-Some.known.now.value x (ap (option_map (λ m. m.value)) (sym c.in-Some.ensures.value)) c.in-Some-exit.ensures.some) c.ccpn_fits_byte.ensures c.in_ok-append_bytes.ensures
