-- Sources: the meaning of a line, the draft of all lines, their rules, and the object.
pub mod Symbols
pub mod Drafts
pub mod DraftViews
pub mod Rules
pub mod DraftedSources
pub mod Objects
pub mod DraftInvariants
pub mod Errors
pub mod Statements
pub mod SourceRelocations
pub mod InstructionLaws
pub mod ItemInvariants
pub mod AlikeDrafts
pub mod ShortJumpLaws
pub mod KnownSymbols
