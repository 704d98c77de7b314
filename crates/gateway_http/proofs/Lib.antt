pub mod Cuts
pub mod GetsLeaveLists
pub mod Literals
pub mod NoText
pub mod OnlyHistories
pub mod RepeatsLeaveLists
pub mod StoreReports
