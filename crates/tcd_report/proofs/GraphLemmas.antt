-- Lists of addresses, the text of lines, arrows of points, and edges of steps on lines.
pub mod Lists
pub mod KeyTexts
pub mod LineEnds
pub mod HandlerLaws
pub mod DutyLists
pub mod GraphTexts
pub mod Joining
pub mod Arrows
pub mod EdgeProofs
