-- Laws of the forecast.
pub mod Counting
pub mod AddingUp
pub mod Forecasting
