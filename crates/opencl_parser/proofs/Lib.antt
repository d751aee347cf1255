pub mod BlockSteps
pub mod DeclarationSteps
pub mod ExpressionSteps
pub mod StatementSteps
pub mod Steps
pub mod TypeSteps
