mod Backwards
mod FreeTasks
mod Seen
