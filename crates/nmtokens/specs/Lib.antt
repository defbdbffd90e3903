pub mod Nmtokens
