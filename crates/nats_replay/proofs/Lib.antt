mod Asking
mod Lived
mod Outcomes
mod Transfers
