pub mod ReferenceEnds
pub mod NumberAnswers
pub mod FirstBinds
pub mod ValidTables
pub mod SmallEntities
pub mod GoodEntities
pub mod NameSpelled
pub mod GrammarRead
pub mod GrammarTaken
mod Examples
