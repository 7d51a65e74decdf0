pub mod Forecasts
