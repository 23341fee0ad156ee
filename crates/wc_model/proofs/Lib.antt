pub mod Common
pub mod FuseLaws
