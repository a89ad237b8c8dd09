-- Lemmas on graphs, reports and generated images, and those that graphs and reports share.
pub mod JudgedPoints
pub mod GraphLemmas
pub mod ReportLemmas
pub mod ImageLemmas
