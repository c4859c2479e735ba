pub mod HashVisits
