pub mod Actions
pub mod Embeds
pub mod Plans
pub mod Sought
pub mod Walking
