mod Finding
mod Using
