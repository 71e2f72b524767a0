pub mod OneLetter
