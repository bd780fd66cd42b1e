pub mod Sprints
