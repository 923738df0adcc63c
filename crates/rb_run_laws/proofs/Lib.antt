pub mod LegalFits
mod NamedTables
mod Room
mod TableRoom
mod BodyReads
mod RunKeeps
mod RunBytes
mod FilesRead
