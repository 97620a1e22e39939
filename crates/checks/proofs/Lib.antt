-- Laws of tables of step codes, and of the checks of a step.
pub mod Tables
pub mod Refusing
pub mod Apart
pub mod OneStep
