pub mod LineRests
pub mod LineHats
pub mod LineBegins
pub mod LineLetters
pub mod LineNames
pub mod LinePlaces
