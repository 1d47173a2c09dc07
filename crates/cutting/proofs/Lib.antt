-- That the premises of the cutting claim can be met: this rests on the examples of specs/, which a must-fail edit makes false.
pub mod Further
pub mod Witnesses
