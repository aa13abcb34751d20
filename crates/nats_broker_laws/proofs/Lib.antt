mod Order
mod Reading
mod Steps
mod Valid
