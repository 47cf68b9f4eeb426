pub mod MillisecondsHold
