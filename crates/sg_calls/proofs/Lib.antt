mod WordLemmas
mod RowLemmas
pub mod CrossingLemmas
mod FirstLemmas
mod StartLemmas
mod GraphLemmas
mod StatedLemmas
mod TableLemmas
mod StudyLemmas
mod BoundLemmas
mod NetworkLemmas
pub mod JoinLemmas
