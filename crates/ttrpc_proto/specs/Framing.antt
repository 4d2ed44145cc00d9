pub mod Streams
pub mod Header
pub mod Frames
pub mod Decoder
pub mod Queue
pub mod Streaming
pub mod Inside
pub mod Laid
