-- Laws of subsets, for the crates above too.
pub mod SubsetLaws
pub mod SingletonLaws
pub mod StandingLaws
