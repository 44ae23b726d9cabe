pub mod Log
pub mod ZeroFollows
pub mod Goes
pub mod RunSteps
pub mod CountedSteps
pub mod Demand
pub mod Events
pub mod Quiet
