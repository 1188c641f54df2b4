mod KindsKept
mod Rows
