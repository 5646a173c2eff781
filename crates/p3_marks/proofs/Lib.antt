pub mod PlaceLaws
pub mod MarkLaws
pub mod ShownLaws
pub mod FollowLaws
pub mod PendingLaws
pub mod ReasonLaws
