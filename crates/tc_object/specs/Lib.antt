-- Object files: names, what an object is, its grammar, and its one spelling.
pub mod Names
pub mod Used
pub mod Objects
pub mod Grammar
pub mod Faults
pub mod Spelling
