pub mod nest_vector
