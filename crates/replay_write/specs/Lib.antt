-- Lines of output of the replay program.
pub mod Write
