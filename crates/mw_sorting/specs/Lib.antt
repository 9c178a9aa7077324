pub mod ComputedSorts
pub mod PreregularModulo
pub mod NumberTable
