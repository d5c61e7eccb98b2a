pub mod Rising
pub mod Paid
pub mod PartsMade
pub mod Classes
pub mod Texts
pub mod OneCert
pub mod AlikeCertificates
