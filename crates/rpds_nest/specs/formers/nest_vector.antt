pub mod NestVector
