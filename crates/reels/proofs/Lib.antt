pub mod StandingReels
