-- Listings: the text of an instruction, the listing of an image, and its object.
pub mod Texts
pub mod Listing
pub mod LentSegments
pub mod Tokens
pub mod Lexed
pub mod RowsApart
pub mod GivenFields
pub mod Refused
pub mod Assembled
pub mod Printable
