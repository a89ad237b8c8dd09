-- Call chains, the heights of nodes, the longest chains, and the text of the report.
pub mod MostLaws
pub mod NodeLaws
pub mod RankLaws
pub mod HeightLaws
pub mod RowLaws
pub mod LongestLaws
pub mod ReportTexts
