pub mod LoadPlans
pub mod CallLaws
pub mod Watched
pub mod Verdicts
pub mod Loading
pub mod Demos
pub mod JobEnds
pub mod Saves
