pub mod SameValues
pub mod AboveLaws
pub mod WordTests
pub mod IncomingLemmas
pub mod SparseLemmas
pub mod WrittenOver
pub mod HeldWords
pub mod ZeroLemmas
