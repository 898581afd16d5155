pub mod WorktreeView
pub mod Worktrees
