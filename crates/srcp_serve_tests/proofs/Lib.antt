pub mod TraceIsKept
