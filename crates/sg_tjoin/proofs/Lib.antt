pub mod TableRows
pub mod MetricLaws
pub mod CostRows
pub mod PairEnds
pub mod Turning
pub mod CutLeast
pub mod TableBounds
pub mod Counting
