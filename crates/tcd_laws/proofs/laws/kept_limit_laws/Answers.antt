use Rattle.tcd_laws.proofs.SourceBytes.{sources_give_objects}
use Rattle.tcd_laws.proofs.LinkedImages.{links_give_images}
use Rattle.tcd_laws.proofs.ObjectBytes.{objects_spell_bytes}
use Rattle.tcd_laws.proofs.LayoutTexts.{texts_give_layouts}
use Rattle.tcd_laws.proofs.laws.kept_limit_laws.Goals as goal

pub returns-clause-objects : goal.returns-clause-objects
returns-clause-objects c = sources_give_objects

pub returns-clause-files : goal.returns-clause-files
returns-clause-files c = objects_spell_bytes

pub returns-clause-layouts : goal.returns-clause-layouts
returns-clause-layouts c = texts_give_layouts

pub returns-clause-images : goal.returns-clause-images
returns-clause-images c = links_give_images
