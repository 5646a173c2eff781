pub mod KindLemmas
pub mod SearchLemmas
pub mod ObjectLemmas
pub mod ReachLemmas
pub mod SpanLemmas
pub mod PlaceLemmas
pub mod TypingLemmas
pub mod RisingLemmas
