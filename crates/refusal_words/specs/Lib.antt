-- What the contracts of `refusal_words` cite.
pub mod Texts
pub mod Written
pub mod Laws
