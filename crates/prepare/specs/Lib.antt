pub mod PlanFor
pub mod Preparing
