mod HexWords
mod HexWritten
