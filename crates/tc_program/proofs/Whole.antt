-- The image of sources that were assembled and linked, and their symbols.
use Rattle.std.proofs.Common.{sym}
use Rattle.tc_program.specs.PlacementLaws.{LinkedImagesArePlaced, SymbolsAreOfWholeSource}
use Rattle.tc_program.proofs.Laws.{parts_of, segments_law, entry_law}
use Rattle.tc_program.proofs.Stands.{statement_stands}
use Rattle.tc_program.proofs.Zeros.{zero_else}
use Rattle.tc_asm.proofs.AlikeDrafts.{passes_agree}

pub placed_law : LinkedImagesArePlaced
placed_law sources objects layout image good are e =
    let parts = parts_of objects layout image e in
    record {
      segments = segments_law sources objects layout image are e;
      statements = λ number index source t is_source at long. statement_stands sources objects layout image good are parts number source is_source index t at long;
      zero = zero_else sources layout good objects image are parts;
      entry = entry_law sources objects layout image are e;
    }

pub symbols_law : SymbolsAreOfWholeSource
symbols_law source = sym (passes_agree source)
