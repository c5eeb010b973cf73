mod KnownBytes
mod LegStates
mod Refused
mod Sent
