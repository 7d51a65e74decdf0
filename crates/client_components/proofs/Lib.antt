pub mod Fitting
pub mod PaidLemmas
pub mod QuotaLemmas
pub mod Stopping
