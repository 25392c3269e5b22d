pub mod StepsCode
pub mod StartOk
