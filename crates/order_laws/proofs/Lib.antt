mod Ups
