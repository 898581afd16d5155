pub mod BoxedEngine
mod AnswerLemmas
mod LabelLemmas
mod LayLemmas
mod RoomLemmas
mod RowLemmas
mod SourcedLemmas
